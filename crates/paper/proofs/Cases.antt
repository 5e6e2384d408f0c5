-- Every check on paper holds.
use mathlib.Core.Path.{◌≡◌, refl, ap, ap₂}
use mathlib.Core.List.{List, [], ◌∷◌, ◌++◌, map, flatten}
use Prim.Native.Nat.{ℕ}
use lib.ListN.{replicate}
use Rattle.field.specs.Polynomial.{classes, exponents, combination, value}
use Rattle.field.proofs.Inverses.{products}
use Rattle.xor.specs.Sum.{join}
use Rattle.decomposition.specs.Layout.{terms_of, layout, sized}
use Rattle.decomposition.specs.Record.{headed, outputs_of}
use Rattle.decomposition.specs.Fit.{house_basis}
use Rattle.decomposition.proofs.Theorems.{zero_house}
use Rattle.steps.specs.Program.{◌>>=◌, ◌>>◌, note, random, loop, for, first, later, result, trace, draws}
use Rattle.steps.specs.Program as program
use Rattle.steps.specs.Watch.{watched}
use Rattle.steps.specs.Call.{call_counts}
use Rattle.steps.specs.Fill.{tabulate}
use Rattle.steps.specs.Tape.{nibbles, elements, bytes_for}
use Rattle.steps.specs.Operations.{column, masked_byte, split_shares}
use Rattle.product.specs.Product.{start, pair, row, product}
use Rattle.product.specs.ByShare.{by_share, constant, square, squares}
use Rattle.sbox.specs.Form.{basis_size, basis_in, solution_in}
use Rattle.sbox.specs.Sbox as sbox
use Rattle.sbox.specs.Figures.{products_for, own_steps, steps_for, sbox_steps}
use Rattle.sbox.specs.Operations.{call_program, sbox_call}
use Rattle.steps.specs.Iterate.{turns, iterate}
use Rattle.present.specs.Present.{nibble, replace, on_nibble, substitute, place, rotate, on_top_nibbles, round_number, update_key}
use Rattle.present.specs.Present as present
use Rattle.paper.specs.Cases.{Case, computed, zero_fit, split_value, checks}

rows : map (λ (c : Case). c.given) computed ≡ map (λ (c : Case). c.said) computed
unfolding computed house_basis products classes flatten exponents combination value join
    ◌>>=◌ ◌>>◌ note random loop for first later result trace watched draws program.products start pair row product tabulate nibbles elements bytes_for
    layout sized terms_of headed outputs_of basis_size basis_in solution_in
    by_share square squares sbox.factors sbox.classes_after sbox.powers constant sbox.term sbox.polynomial sbox.polynomials sbox.form_products sbox.total sbox.sbox
    products_for own_steps steps_for sbox_steps call_program sbox_call call_counts
    turns iterate nibble replace on_nibble present.table substitute place rotate on_top_nibbles round_number update_key
rows = refl

-- House fit of the zero table: what is asked of a fit settles what is written
zero_fit_lem : zero_fit.given ≡ zero_fit.said
zero_fit_lem = (zero_house (replicate 304 0) (replicate 34 255) refl refl).1

split_value_lem : split_value.given ≡ split_value.said
unfolding products join tabulate column masked_byte split_shares
split_value_lem = refl

pub cases : map (λ (c : Case). c.given) checks ≡ map (λ (c : Case). c.said) checks
unfolding checks computed
cases =
    ap₂ (λ (l m : List (List ℕ)). l ++ m) rows
    (ap₂ (λ (x : List ℕ) (m : List (List ℕ)). x ∷ m) zero_fit_lem (ap (λ (x : List ℕ). x ∷ []) split_value_lem))
