pub mod Opening
pub mod FirstByte
pub mod Outlook
pub mod Agreement
pub mod Operands
pub mod Raw
pub mod Attempts
pub mod Memo
