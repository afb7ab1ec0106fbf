-- What follows of runs over streams of Go's encoder.
pub mod FilledLineLaws
pub mod FormLaws
pub mod HoistedLineLaws
pub mod LineLaws
pub mod RewriteLaws
pub mod TextLaws
pub mod ShowLaws
pub mod StrictFormLaws
