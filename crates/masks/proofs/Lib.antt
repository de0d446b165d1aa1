-- Laws of masks, of tests over lists, and of rising sweeps.
pub mod Truth
pub mod Bounded
pub mod MaskLaws
pub mod JoinLaws
pub mod Rising
