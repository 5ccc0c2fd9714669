-- Which faults the putting of a part's texts answers.
use Rattle.std.proofs.Common.{◌≡◌, inl, inr, ℕ, List, Option, None, Some, refl}
use Rattle.std.specs.Prelude.{IfSome}
use Rattle.mend_core.specs.Writing.{summary_way, texts_for, way_of}
use Rattle.mend_core.specs.inner.Faults.{IsOfWriting}
use Rattle.mend_words.specs.Names.{Goal, Named, said, file}
use Rattle.part_input.specs.declared.fault.Fault.{Fault}
use Rattle.part_input.specs.declared.fault.Fault.TheVariants.{WriteFault}
use Rattle.part_input.specs.declared.fault.Target.TheVariants.{Out, Summary}
use Rattle.part_input.specs.Causes.{common}
use Rattle.put_texts.specs.Order.{IsFaultAt, IsOfWay, aloud}
use Rattle.put_texts.specs.Puts.{IsOfTexts}
use Rattle.part_input.proofs.Causes.{memory_only}
use Rattle.put_texts.proofs.Putting.{by_fault, of_way}

module _ (named : Named) (f : Fault) where
  of_summary : (out : Goal) → IsOfWay common (summary_way out) (WriteFault Summary) f → (summary_way out ≡ aloud) × IsFaultAt common (WriteFault Summary) f
  of_summary said is = absurd is
  of_summary (file name) is = (refl, is)

  pub of_writing : (part summary : List ℕ) → IsOfTexts common (texts_for named.out part summary) f → IsOfWriting named f
  of_writing part summary (inl h) = by_fault common (IsOfWriting named) (WriteFault Out) tt (memory_only (IsOfWriting named) tt) f (of_way common (way_of named.out) (WriteFault Out) f h)
  of_writing part summary (inr (inl h)) =
      let (is, at) = of_summary named.out h in
      by_fault common (IsOfWriting named) (WriteFault Summary) is (memory_only (IsOfWriting named) tt) f at
  of_writing part summary (inr (inr h)) = absurd h

pub all_of_writing : (named : Named) (part summary : List ℕ) (fault : Option Fault) → IfSome fault (IsOfTexts common (texts_for named.out part summary)) → IfSome fault (IsOfWriting named)
all_of_writing named part summary None h = tt
all_of_writing named part summary (Some f) h = of_writing named f part summary h
