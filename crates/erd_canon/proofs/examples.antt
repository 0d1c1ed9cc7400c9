mod TextExamples
pub mod EngineExamples
pub mod RunExamples
pub mod ReportExamples
mod LineExamples
pub mod DataExamples
mod PieceExamples
mod ListPieceExamples
mod PrepareExamples
mod WordPieceExamples
mod ValuedExamples
