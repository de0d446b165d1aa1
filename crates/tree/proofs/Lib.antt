-- Laws of the lineage and of the calls over the whole tree.
pub mod Ascent
pub mod RevokeLaws
pub mod SameLaws
pub mod AmendLaws
pub mod WithdrawLaws
