-- A CHOICE SETTLES A CALL, AND A CALL A CHOICE, of every masked operation: values of the secrets and a choice settle what is lent, and what is lent
-- is settled by exactly one list of values and one choice.
use mathlib.Core.Path.{◌≡◌, refl, sym, ap, ap₂, subst, ◌∙◌}
use mathlib.Core.List.{List, [], ◌∷◌}
use Prim.Native.Nat.{ℕ, suc, ◌-◌, ◌*◌, ◌^◌, ◌<◌}
use native.Mathlib.Omega.{arith}
use lib.ListN.{length, get_or, take}
use lib.Seq.{take-length}
use Rattle.xor.specs.Xor.{◌⊕◌}
use Rattle.xor.specs.Sum.{join, Small}
use Rattle.xor.proofs.Xor.{⊕-lt}
use Rattle.xor.proofs.Sum.{small_cons, small_tail, join_small, split_join, split_once}
use Rattle.steps.specs.Split.{settled}
use Rattle.steps.specs.ShareBytes.{share_at, shares_of, bytes_of}
use Rattle.steps.specs.Tape.{elements, bytes_for}
use Rattle.steps.specs.Settled.{Secret, element, string, secret_bits, lie, Inputs, MasksFor, masks_nil, masks_cons, ValuesFor, values_nil, values_cons, Settles, settles_nil, settles_cons, Settled}
use Rattle.steps.proofs.Fill.{length_tabulate, tabulate_get_or}
use Rattle.steps.proofs.Stored.{bytes_of_shares, shares_of_bytes}
use Rattle.steps.proofs.ShareBytes.{shares_sharing, bytes_of_length, bytes_of_small}

-- ---- as elements

pub small_settled : (n x : ℕ) (masks : List ℕ) → x < 2 ^ n → Small n masks → Small n (settled x masks)
small_settled n x masks hx h = small_cons n (x ⊕ join masks) masks (⊕-lt n hx (join_small n masks h)) h

-- ---- in bytes

-- the shares that lie in the bytes of s shares are these
shares_again : (w s : ℕ) (a : List ℕ) → length a ≡ s → Small (8 * w) a → shares_of w s (bytes_of w a) ≡ a
shares_again w s a e h =
    subst (λ (k : ℕ). shares_of w k (bytes_of w a) ≡ a) e
    (ap (λ (b : List ℕ). shares_of w (length a) (bytes_of w b)) (sym (tabulate_get_or a 0))
    ∙ shares_of_bytes w (length a) (λ i. get_or a i 0) h
    ∙ tabulate_get_or a 0)

-- a secret below 2 ^ (8 w) and its masks give s shares
pub split_again : (w s x : ℕ) (masks : List ℕ) → 0 < s → length masks ≡ s - 1 → x < 2 ^ (8 * w) → Small (8 * w) masks
    → shares_of w s (bytes_of w (settled x masks)) ≡ settled x masks
split_again w s x masks some e hx h = shares_again w s (settled x masks) (ap suc e ∙ omega arith) (small_settled (8 * w) x masks hx h)

pub settled_length : (w s x : ℕ) (masks : List ℕ) → 0 < s → length masks ≡ s - 1 → length (bytes_of w (settled x masks)) ≡ w * s
settled_length w s x masks some e =
    let n : length (settled x masks) ≡ s = omega arith in
    bytes_of_length w (settled x masks) ∙ ap (λ (k : ℕ). w * k) n

-- the bytes of shares tell the secret and the masks
pub bytes_once : (w k x y : ℕ) (masks others : List ℕ) → length masks ≡ k → length others ≡ k → x < 2 ^ (8 * w) → y < 2 ^ (8 * w)
    → Small (8 * w) masks → Small (8 * w) others → bytes_of w (settled x masks) ≡ bytes_of w (settled y others) → (x ≡ y) × (masks ≡ others)
bytes_once w k x y masks others em eo hx hy hm ho e =
    split_once x y masks others
    (sym (split_again w (suc k) x masks (omega arith) (em ∙ omega arith) hx hm)
    ∙ ap (shares_of w (suc k)) e
    ∙ split_again w (suc k) y others (omega arith) (eo ∙ omega arith) hy ho)

-- ---- one secret

-- bytes in which s shares of a secret lie
abbrev pub Lent : ℕ → Secret → List ℕ → Type 0
Lent s (element n) t = (length t ≡ s) × Small n t
Lent s (string w) t = (length t ≡ w * s) × Small 8 t

-- a value and masks settle such bytes,
pub settled_lent : (s : ℕ) (x : Secret) (v : ℕ) (l : List ℕ) → 0 < s → v < 2 ^ secret_bits x → length l ≡ s - 1 → Small (secret_bits x) l
    → Lent s x (lie x (settled v l))
settled_lent s (element n) v l some hv e h = (omega arith, small_settled n v l hv h)
settled_lent s (string w) v l some hv e h = (settled_length w s v l some e, bytes_of_small w (settled v l))

-- a value and masks that settle these bytes
record SettledOne (s : ℕ) (x : Secret) (t : List ℕ) : Type 0 where
  value : ℕ
  masks : List ℕ
  small : value < 2 ^ secret_bits x
  masks_length : length masks ≡ s - 1
  masks_small : Small (secret_bits x) masks
  lent_is : t ≡ lie x (settled value masks)

-- and such bytes are settled by the value that the shares join to and the masks that are those after the first
element_settled : (n s : ℕ) (shares : List ℕ) → 0 < s → length shares ≡ s → Small n shares → SettledOne s (element n) shares
element_settled n s [] some e h = absurd (omega arith)
element_settled n s (a ∷ masks) some e h = record {
  value = join (a ∷ masks);
  masks = masks;
  small = join_small n (a ∷ masks) h;
  masks_length = omega arith;
  masks_small = small_tail n a masks h;
  lent_is = split_join a masks;
}

lent_settled_one : (s : ℕ) (x : Secret) (t : List ℕ) → 0 < s → Lent s x t → SettledOne s x t
unfolding shares_of
lent_settled_one s (element n) t some h = element_settled n s t some h.0 h.1
lent_settled_one s (string w) t some h =
    let shares = shares_of w s t in
    let a = element_settled (8 * w) s shares some (length_tabulate s (share_at w t)) (shares_sharing w s t h.1).small in
    let whole : bytes_of w shares ≡ t =
    bytes_of_shares w t h.1 s (omega (arith, h.0)) ∙ ap (λ (k : ℕ). take k t) (sym h.0) ∙ take-length t in
    record {
      value = a.value;
      masks = a.masks;
      small = a.small;
      masks_length = a.masks_length;
      masks_small = a.masks_small;
      lent_is = sym whole ∙ ap (bytes_of w) a.lent_is;
    }

-- ---- the call that is settled

-- bytes in which s shares of each secret lie
pub data LentFor (s : ℕ) : List Secret → List (List ℕ) → Type 0 where
  lent_nil : LentFor s [] []
  lent_cons : {x : Secret} {xs : List Secret} {t : List ℕ} {ts : List (List ℕ)} → Lent s x t → LentFor s xs ts → LentFor s (x ∷ xs) (t ∷ ts)

module _ {s : ℕ} {x : Secret} {xs : List Secret} {t : List ℕ} {ts : List (List ℕ)} where
  pub lent_first : LentFor s (x ∷ xs) (t ∷ ts) → Lent s x t
  lent_first (lent_cons h rest) = h

  pub lent_rest : LentFor s (x ∷ xs) (t ∷ ts) → LentFor s xs ts
  lent_rest (lent_cons h rest) = rest

-- values and masks that settle these bytes
record SettledAll (s : ℕ) (xs : List Secret) (ts : List (List ℕ)) : Type 0 where
  values : List ℕ
  masks : List (List ℕ)
  masks_are : MasksFor s xs masks
  settles : Settles xs values masks ts

lent_settled_all : (s : ℕ) {xs : List Secret} {ts : List (List ℕ)} → 0 < s → LentFor s xs ts → SettledAll s xs ts
lent_settled_all s some lent_nil = record { values = []; masks = []; masks_are = masks_nil; settles = settles_nil }
lent_settled_all s some (lent_cons {x} {xs} {t} h rest) =
    let a = lent_settled_one s x t some h in
    let b = lent_settled_all s some rest in
    record {
      values = a.value ∷ b.values;
      masks = a.masks ∷ b.masks;
      masks_are = masks_cons a.masks_length a.masks_small b.masks_are;
      settles = settles_cons a.small a.lent_is b.settles;
    }

settles_lent : {s : ℕ} {xs : List Secret} {vs : List ℕ} {ls ts : List (List ℕ)} → 0 < s → MasksFor s xs ls → Settles xs vs ls ts → LentFor s xs ts
settles_lent some masks_nil settles_nil = lent_nil
settles_lent {s} some (masks_cons {x} {l = l} e small rest) (settles_cons {v = v} h is more) =
    lent_cons (subst (Lent s x) (sym is) (settled_lent s x v l some h e small)) (settles_lent some rest more)

-- WHAT VALUES AND A CHOICE SETTLE has the right lengths, and its elements are small;
pub settled_lents : (c : Inputs) {lent : List (List ℕ)} {random : List ℕ} → 0 < c.shares → Settled c lent random
    → LentFor c.shares c.secrets lent
settled_lents c some a = settles_lent some a.choice.masks_are a.settles

-- EVERY CALL of the right lengths, with small elements, is settled by values of the secrets and a choice;
pub lent_settled : (c : Inputs) (lent : List (List ℕ)) (random : List ℕ) → 0 < c.shares → LentFor c.shares c.secrets lent
    → length random ≡ bytes_for c.width c.draws → Small c.width (elements c.width random) → Settled c lent random
lent_settled c lent random some h e small =
    let a = lent_settled_all c.shares some h in
    record {
      values = a.values;
      masks = a.masks;
      choice = record { masks_are = a.masks_are; random_length = e; random_small = small };
      settles = a.settles;
    }

-- what is lent tells the value and the masks of one secret,
settled_alone : (s : ℕ) (x : Secret) {v w : ℕ} {l m t : List ℕ} → v < 2 ^ secret_bits x → w < 2 ^ secret_bits x → length l ≡ s - 1 → length m ≡ s - 1
    → Small (secret_bits x) l → Small (secret_bits x) m → t ≡ lie x (settled v l) → t ≡ lie x (settled w m) → (v ≡ w) × (l ≡ m)
settled_alone s (element n) {v} {w} {l} {m} hv hw el em hl hm e f = split_once v w l m (sym e ∙ f)
settled_alone s (string k) {v} {w} {l} {m} hv hw el em hl hm e f = bytes_once k (s - 1) v w l m el em hv hw hl hm (sym e ∙ f)

-- and of all
settles_once : {s : ℕ} {xs : List Secret} {vs ws : List ℕ} {ls ms ts : List (List ℕ)} → MasksFor s xs ls → MasksFor s xs ms
    → Settles xs vs ls ts → Settles xs ws ms ts → (vs ≡ ws) × (ls ≡ ms)
settles_once masks_nil masks_nil settles_nil settles_nil = (refl, refl)
settles_once {s} (masks_cons {x = x} el hl rl) (masks_cons em hm rm) (settles_cons hv e rv) (settles_cons hw f rw') =
    let one = settled_alone s x hv hw el em hl hm e f in
    let more = settles_once rl rm rv rw' in
    (ap₂ (λ (a : ℕ) (b : List ℕ). a ∷ b) one.0 more.0, ap₂ (λ (a : List ℕ) (b : List (List ℕ)). a ∷ b) one.1 more.1)

-- and by NO OTHER: two lists of values and two choices that settle one call are the same. (Their random bytes are those of the call.)
pub settled_once : (c : Inputs) {lent : List (List ℕ)} {random : List ℕ} (a b : Settled c lent random)
    → (a.values ≡ b.values) × (a.masks ≡ b.masks)
settled_once c a b = settles_once a.choice.masks_are b.choice.masks_are a.settles b.settles

-- ALL VALUES AND MASKS settle a call.
pub values_settle : {s : ℕ} {xs : List Secret} {vs : List ℕ} {ls : List (List ℕ)} → ValuesFor xs vs → MasksFor s xs ls
    → (ts : List (List ℕ)) × Settles xs vs ls ts
values_settle values_nil masks_nil = ([], settles_nil)
values_settle (values_cons {x} {v = v} h rest) (masks_cons {l = l} e small more) =
    let a = values_settle rest more in (lie x (settled v l) ∷ a.0, settles_cons h refl a.1)
