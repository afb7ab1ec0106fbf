mod StepLaws
mod ByteLaws
mod NumberLaws
mod TokenLaws
mod ShownLaws
