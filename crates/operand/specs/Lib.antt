pub mod Expr
pub mod Names
pub mod Memory
pub mod Operand
pub mod Alike
pub mod Alone
pub mod Lent
pub mod Sized
