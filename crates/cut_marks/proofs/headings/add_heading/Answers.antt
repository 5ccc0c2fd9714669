use Rattle.std.proofs.Common.{◌≡◌, ℕ, ◌++◌, ◌∷◌, [], List, ◌∙◌, ap, subst}
use Rattle.text_fit.specs.Fits.{IsFitted}
use Rattle.text_fit.specs.declared.fit.Room.{Room}
use Rattle.sheet_page.specs.declared.page.Item.{Item}
use Rattle.cut_marks.specs.HeadingTexts.{heading_text}
use Rattle.cut_marks.specs.Items.{heading_item}
use Rattle.cut_marks.proofs.HeadingLabels.{stated, in_room}
use Rattle.cut_marks.proofs.WholePlaces.{place_whole}
use Rattle.cut_marks.proofs.headings.add_heading.Goals as goal

pub returns-clause-items : goal.returns-clause-items
returns-clause-items c =
    let h = c.args.heading.now in
    let text = heading_text c.args.form.decimals c.args.form.unit h c.args.title.now in
    let f = c.in_ok-fitted.fitted in
    let of_text = subst (λ (t : List ℕ). IsFitted c.room_of.result t f) (c.as_str.ensures.value ∙ c.in_ok-text.ensures.text) c.in_ok-fitted.ensures in
    let is = subst (λ (room : Room). IsFitted room text f) c.room_of.ensures of_text in
    let label : c.heading_label.result ≡ heading_item c.args.form.decimals c.args.form.unit h c.args.title.now = c.heading_label.ensures ∙ stated h text f is in
    ◌∙◌ {A = List Item} c.in_ok-push.ensures.items (ap (λ (i : Item). c.args.items.now.items ++ i ∷ []) label)

pub returns-clause-well : goal.returns-clause-well
returns-clause-well c =
    let h = c.args.heading.now in
    let text = heading_text c.args.form.decimals c.args.form.unit h c.args.title.now in
    let f = c.in_ok-fitted.fitted in
    let of_text = subst (λ (t : List ℕ). IsFitted c.room_of.result t f) (c.as_str.ensures.value ∙ c.in_ok-text.ensures.text) c.in_ok-fitted.ensures in
    let is = subst (λ (room : Room). IsFitted room text f) c.room_of.ensures of_text in
    record {
      in_room = in_room h text f is;
      place = place_whole c.args.form.decimals c.args.form.unit h c.args.title.now c.in_ok-text.ensures.front_is_text;
    }
