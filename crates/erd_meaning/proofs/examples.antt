-- What the definitions say of small reports, by computation.
mod ReferenceExamples
mod NameExamples
pub mod RecordExamples
mod ElectionExamples
mod LaterFaultExamples
pub mod RefusedExamples
