mod WiderLaws
mod WiderSpelled
mod WiderExpects
mod WiderRefused
mod WiderStreams
