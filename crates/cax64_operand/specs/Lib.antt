-- What the clauses of public functions say.
pub mod Family
pub mod Immediate
pub mod OperandList
pub mod Fold
pub mod Made
pub mod ItsRow
pub mod NopRow
pub mod Shape
pub mod Kind
pub mod Signature
pub mod Worked
pub mod VisitSteps
pub mod Visit
