mod StandLaws
mod GroupLaws
mod PutLaws
mod FieldLaws
mod ShapeLaws
mod SizeLaws
mod SpelledLaws
mod TapeLaws
