mod HeadLaws
mod HeadText
