pub mod Relayout
