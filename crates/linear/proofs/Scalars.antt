-- The elements of a width are scalars that meet the laws.
pub use Rattle.linear.specs.Laws.{laws_of, scalar_laws}
