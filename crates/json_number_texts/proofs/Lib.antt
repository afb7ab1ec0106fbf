mod ByteLaws
mod NumberLaws
mod OutLaws
mod PieceLaws
mod StepLaws
mod StringLaws
mod TextLaws
mod WriterLaws
