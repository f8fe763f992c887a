pub mod Grammar
pub mod Trees
pub mod Listed
