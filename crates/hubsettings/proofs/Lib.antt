mod AskedLaws
mod Whole
