-- Sharings: lists of elements, share 0 first. They may have places past the shares, with 0 in them.
use Rattle.std.specs.Prelude.{◌≡◌, ◌≢◌, List, [], ◌∷◌, ℕ, ◌^◌, ◌≤◌, ◌<◌, length, get_or, replicate}
use Rattle.xor.specs.Xor.{◌⊕◌}
use Rattle.xor.specs.Sum.{join, Small}

-- share i of a sharing
abbrev pub share : List ℕ → ℕ → ℕ
share a i = get_or a i 0

-- a is a sharing of x in s shares of n bits
pub record Sharing (n s x : ℕ) (a : List ℕ) : Type 0 where
  pub small : Small n a
  pub past : (i : ℕ) → s ≤ i → share a i ≡ 0
  pub joins : join a ≡ x

-- shares 0 to i - 1 of c are g 0 to g (i - 1), the other ones of its nine places are 0
pub record Filled (g : ℕ → ℕ) (i : ℕ) (c : List ℕ) : Type 0 where
  pub places : length c ≡ 9
  pub filled : (j : ℕ) → j < i → share c j ≡ g j
  pub past : (j : ℕ) → i ≤ j → share c j ≡ 0

-- ---- sharings, share by share

-- f of the shares of two sharings; past the end of a list its shares are 0
unfoldable pub share_wise : (ℕ → ℕ → ℕ) → List ℕ → List ℕ → List ℕ
share_wise f [] [] = []
share_wise f [] (y ∷ b) = f 0 y ∷ share_wise f [] b
share_wise f (x ∷ a) [] = f x 0 ∷ share_wise f a []
share_wise f (x ∷ a) (y ∷ b) = f x y ∷ share_wise f a b

-- the sharing of c that has it all in share 0
unfoldable pub alone : ℕ → List ℕ
alone c = c ∷ []

-- a sharing held in nine places, 0 past its shares
unfoldable pub held : List ℕ → List ℕ
held a = share_wise ◌⊕◌ a (replicate 9 0)

-- ---- agreement but for share u

-- two elements below 2 ^ n, share i of either of two sharings: they are equal unless i is u
pub record CloseAt (n u i v w : ℕ) : Type 0 where
  pub agree : i ≢ u → v ≡ w
  pub small : v < 2 ^ n
  pub small' : w < 2 ^ n

-- two sharings of elements below 2 ^ n that agree at every share but u
pub record Close (n u : ℕ) (a b : List ℕ) : Type 0 where
  pub same_length : length a ≡ length b
  pub agree : (i : ℕ) → i ≢ u → share a i ≡ share b i
  pub small : Small n a
  pub small' : Small n b

-- two lists of such sharings, place by place
pub data CloseAll (n u : ℕ) : List (List ℕ) → List (List ℕ) → Type 0 where
  close_nil : CloseAll n u [] []
  close_cons : {a b : List ℕ} {l m : List (List ℕ)} → Close n u a b → CloseAll n u l m → CloseAll n u (a ∷ l) (b ∷ m)
