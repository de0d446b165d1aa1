-- Laws of guards, of elements put back and of counts that rise.
pub mod GuardLaws
pub mod SlotLaws
pub mod CountLaws
