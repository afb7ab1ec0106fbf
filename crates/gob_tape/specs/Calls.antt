-- What contracts see of the builder of tapes.
pub mod Builder
