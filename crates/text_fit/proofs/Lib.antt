mod WidthsBefore
mod KeptChars
mod CutTexts
