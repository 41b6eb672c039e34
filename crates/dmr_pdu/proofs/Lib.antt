pub mod ListLaws
pub mod EqualityLemmas
pub mod FunctionLemmas
pub mod LayoutLemmas
pub mod PackedLemmas
pub mod PaddingLemmas
pub mod RowLemmas
pub mod Laws
