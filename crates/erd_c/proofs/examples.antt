pub mod CallExamples
mod PieceCallExamples
mod LineCallExamples
mod PrepareCallExamples
