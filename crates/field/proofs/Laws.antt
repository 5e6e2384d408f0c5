-- Every width that is a field has all laws of the record `Laws`; so have widths 4, 6 and 8.
use Prim.Native.Nat.{ℕ}
use Rattle.xor.proofs.Xor.{⊕-assoc, ⊕-comm, ⊕-zero, ⊕-self, ⊕-lt}
use Rattle.field.specs.Mul.{Width}
use Rattle.field.specs.Power.{Field}
use Rattle.field.specs.Laws.{Laws}
use Rattle.field.proofs.Bilinear.{mul_⊕, ⊕-mul}
use Rattle.field.proofs.Ring.{mul_comm, mul_assoc, mul_one_left, mul_small}
use Rattle.field.proofs.Remainder.{remainder, remainder_unique}
use Rattle.field.proofs.Power.{powers_of_y, reduced, square_add}
use Rattle.field.proofs.Inverses.{field_of, inverse_small, inverse_zero}

pub laws : (n : ℕ) → Field n → Laws n
laws n field =
    record {
      add_closed = λ a b ha hb. ⊕-lt n ha hb;
      mul_closed = λ a b ha hb. mul_small field.ring a b ha;
      add_associates = ⊕-assoc;
      add_commutes = ⊕-comm;
      add_zero = ⊕-zero;
      add_self = ⊕-self;
      mul_associates = mul_assoc field.ring;
      mul_commutes = mul_comm n;
      mul_one = mul_one_left field.ring;
      distributes_left = mul_⊕ n;
      distributes_right = ⊕-mul n;
      inverse_closed = inverse_small field;
      inverts = field.inverts;
      inverse_zero = inverse_zero field;
      powers_of_y = powers_of_y field.ring;
      reduced = reduced n field.ring;
      remainder = remainder n field.ring.reduces;
      remainder_unique = remainder_unique n field.ring.reduces;
      square_additive = square_add field.ring;
    }

pub field_laws : (n : ℕ) → Width n → Laws n
field_laws n w = laws n (field_of n w)
