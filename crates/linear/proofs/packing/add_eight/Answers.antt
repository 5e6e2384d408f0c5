-- `linear::add_eight` meets its contract: eight bytes are written one after the other.
use native.Mathlib.Omega.{arith}
use Rattle.xor.proofs.Xor.{⊕-is}
use Rattle.linear.specs.Packed.{sum_bytes}
use Rattle.linear.proofs.Buffer.{overwritten_first}
use Rattle.linear.proofs.Packed.{begun_next, begun_none}
use Rattle.linear.proofs.packing.add_eight.Goals as goal

pub returns : goal.returns
returns c =
    let none = begun_none c.args.row.now (sum_bytes c.args.row.now c.args.other.now) in
    let first = begun_next none _ (omega arith) (⊕-is _ _) in
    let next2 = begun_next first _ (omega arith) (⊕-is _ _) in
    let next3 = begun_next next2 _ (omega arith) (⊕-is _ _) in
    let next4 = begun_next next3 _ (omega arith) (⊕-is _ _) in
    let next5 = begun_next next4 _ (omega arith) (⊕-is _ _) in
    let next6 = begun_next next5 _ (omega arith) (⊕-is _ _) in
    let next7 = begun_next next6 _ (omega arith) (⊕-is _ _) in
    let all = begun_next next7 _ (omega arith) (⊕-is _ _) in
    rw c.requires.0 (overwritten_first all.written)
