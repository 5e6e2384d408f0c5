-- For inner contracts only. What the tests leave of a call, by the layout and the coefficients of its record.
use Rattle.std.specs.Prelude.{◌≡◌, List, ℕ, ◌≤◌, ◌<◌, length}
use Rattle.steps.specs.Call.{Takes}
use Rattle.steps.specs.Tape.{elements, bytes_for}
use Rattle.decomposition.specs.declared.layouts.Layout.{Layout}
use Rattle.sbox.specs.Figures.{sbox_products, sbox_draws, sbox_steps}
use Rattle.sbox.specs.Operations.{OfPair, layout_program}

-- its layout is that of a pair, it has shares, at most nine, its program takes the figures, and its random bytes are as many as it draws
pub record Passed (L : Layout) (cs : List ℕ) (s : ℕ) (shares random : List ℕ) : Type 0 where
  pub of_pair : OfPair L
  pub some : 0 < s
  pub nine : length shares ≤ 9
  pub takes : Takes (layout_program L cs s shares) (elements L.width random) (sbox_products L.width L.outputs) (sbox_draws L.width L.outputs s) (sbox_steps L.width L.outputs s)
  pub enough : length random ≡ bytes_for L.width (sbox_draws L.width L.outputs s)
