use Rattle.std.proofs.Common.{ℕ, ◌<◌, ◌≡◌, arith}
use Rattle.std.proofs.lemmas.List.Elements.{All-contains_itself}
use Rattle.std.proofs.lemmas.List.Kept.{AllPairs-from_increasing}
use Rattle.span_count.proofs.finder.AllOutlines.new.Goals as goal

differ : (x y : ℕ) → x < y → x ≡ y → ⊥
differ x y h e = omega arith

pub returns-clause-law : goal.returns-clause-law
returns-clause-law c x picked =
    let outlines = c.args.picked.now.outlines.items in
    record {
      outlines = λ edge within. All-contains_itself outlines;
      once = λ edge within i j d h l. differ _ _ (AllPairs-from_increasing outlines picked.1.outlines.ascending i j d h l);
      outlines_over = λ corner within. All-contains_itself outlines;
      once_over = λ corner within i j d h l. differ _ _ (AllPairs-from_increasing outlines picked.1.outlines.ascending i j d h l);
      changing = λ i k e o drawn listed at there changes. listed;
      passing = λ number k c o corner listed there passes. listed;
      covering = λ number c f corner beside. tt;
    }
