use Rattle.std.proofs.Common.{◌≡◌, length, sym, ◌∙◌}
use Rattle.std.proofs.lemmas.Int.{to_z-of_z}
use Rattle.plot_rack.proofs.Drawings.{put_back}
use Rattle.plot_rack.proofs.rack.Rack.draw.Goals as goal

pub returns-clause-err : goal.returns-clause-err
returns-clause-err g c =
    let width_fits = c.ranges.width in
    let height_fits = c.ranges.height in
    let items = c.args.self.now.boxes.items in
    let count : length c.deref_mut.result.now ≡ length items = (λ i. length (c.deref_mut.ensures.value i)) in
    let whole = put_back _ items c.draw_all.new.boxes (c.draw_all.auto.boxes ∙ count) (sym c.deref_mut.ensures.len ∙ count) in
    rw whole (rw c.deref_mut.ensures.value at (simp to_z-of_z at c.draw_all.ensures.err))
