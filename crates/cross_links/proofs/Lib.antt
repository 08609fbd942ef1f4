mod CircleLemmas
pub mod CrossingLemmas
pub mod LayoutLemmas
mod LinkageLemmas
mod RingLemmas
mod RisingLemmas
mod RunLemmas
mod StackLemmas
mod StartLemmas
mod WalkLemmas
