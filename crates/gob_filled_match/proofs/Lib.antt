pub mod LossLaws
mod MovingLaws
mod NumberedLaws
mod NumberingLaws
pub mod PublicLaws
mod ReceivingLaws
mod SkeletonLaws
pub mod StayLaws
mod TakingLaws
