mod RowLaws
mod PlaceLaws
mod FrontLaws
mod OneWayLaws
mod BetweenLaws
mod TakesLaws
mod WalkLaws
mod FillingLaws
mod PartLaws
mod BodyLaws
mod ReachLaws
mod OneRunLaws
mod OnwardLaws
mod StrictRowLaws
mod CountLaws
mod OverLaws
mod WholeItemLaws
pub mod ColumnLaws
mod PutLaws
mod LineLaws
mod NameLaws
pub mod ItemLaws
