-- What a run takes is determined: the words ask for one thing, and a name stands for one part.
use Rattle.std.proofs.Common.{◌≡◌, Option, None, Some, Ok, sym, ◌∙◌}
use Rattle.dec_text.specs.declared.number.Length.TheVariants.{Millimetre}
use Rattle.desk.specs.Files.{Files}
use Rattle.mend_core.specs.Run.{Takes, TakesPart}
use Rattle.mend_words.specs.Names.{Asks, help, version, mend}
use Rattle.part_input.proofs.Singles.{IsSingle, single_then, soup_single}

pub one_taking : (asked : Option Asks) (files : Files) → IsSingle (Takes asked files)
one_taking None files r s e h = e ∙ sym h
one_taking (Some help) files r s e h = e ∙ sym h
one_taking (Some version) files r s e h = e ∙ sym h
one_taking (Some (mend named)) files r s e h =
    single_then (TakesPart files named) (λ part answer. answer ≡ Ok (Some part)) (soup_single files named.part named.decimals Millimetre) (λ part a b p q. p ∙ sym q) r s e h
