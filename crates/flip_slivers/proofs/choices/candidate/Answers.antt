use Rattle.std.proofs.Common.{refl, sym, ap, ◌∙◌, subst, ◌≡◌, get_or}
use Rattle.std.specs.Prelude.{slice_get}
use Rattle.std.proofs.lemmas.Option.{slice_get-get_or, same_Some}
use Rattle.flip_slivers.specs.declared.bounded.Bounded.{Bounded}
use Rattle.flip_slivers.specs.inner.Choices.{IsNewBound}
use Rattle.flip_slivers.proofs.SettledLemmas.{no_sliver_choice, choice_bound}
use Rattle.flip_slivers.proofs.choices.candidate.Goals as goal

abbrev nothing : Bounded
nothing = record { tri = record { a = 0; b = 0; c = 0 }; bound = 0 }

pub returns-in_default-clause-none : goal.returns-in_default-clause-none
returns-in_default-clause-none c _ f here turned there x =
    no_sliver_choice c.args.scene.now.corners.now c.args.scene.now.most c.args.scene.now.surface.now c.args.place c.args.t.now (c.in_default.ensures.none refl) f here turned x

pub returns-in_default-bound_of-clause-none : goal.returns-in_default-bound_of-clause-none
returns-in_default-bound_of-clause-none c _ f here turned there x =
    c.in_default-bound_of.ensures.none refl f.bound
    (choice_bound c.args.scene.now.corners.now c.args.scene.now.most c.args.scene.now.surface.now f c.in-Some.sliver _ _
    (ap (slice_get c.args.scene.now.surface.now) here ∙ slice_get-get_or c.args.scene.now.surface.now c.args.place nothing c.requires.place)
    (ap (slice_get c.args.scene.now.surface.now) there ∙ slice_get-get_or c.args.scene.now.surface.now c.args.other nothing c.requires.other)
    (turned ∙ sym c.in-Some.ensures.turned) x c.in-Some.ensures.sliver)

pub returns-clause-some : goal.returns-clause-some
returns-clause-some c =
    let s = c.in-Some.sliver in
    let at = slice_get-get_or c.args.scene.now.surface.now c.args.place nothing c.requires.place in
    let first : c.in-Some.ensures.sliver.given ≡ _ = same_Some c.in-Some.ensures.sliver.given _ (sym c.in-Some.ensures.sliver.at ∙ ap (slice_get c.args.scene.now.surface.now) c.in-Some.ensures.place ∙ at) in
    record {
      is = refl;
      sliver = s;
      is_sliver = c.in-Some.ensures.sliver;
      at = c.in-Some.ensures.place;
      turned = c.in-Some.ensures.turned;
      neighbour = _;
      at_neighbour = slice_get-get_or c.args.scene.now.surface.now c.args.other nothing c.requires.other;
      new_bound = let P : Bounded → Type 0 = λ y. IsNewBound c.args.scene.now.most y.bound (get_or c.args.scene.now.surface.now c.args.other nothing).bound s.rise c.in-Some-bound_of.bound in subst P (sym first) c.in-Some-bound_of.ensures.some;
    }
