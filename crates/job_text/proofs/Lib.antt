mod Edits
mod PlacesBehind
mod LinesInToml
mod Turns
mod ValuesInToml
