pub use Rattle.shape_base.specs.Naming
pub mod Columns
pub mod Exprs
pub mod Options
