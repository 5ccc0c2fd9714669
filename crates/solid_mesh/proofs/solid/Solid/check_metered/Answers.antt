use Rattle.geometry.specs.Parts.{part_of}
use Rattle.solid_mesh.specs.Meetings.{HaveCommonX, HaveCommonBox}
use Rattle.solid_mesh.proofs.Apart.{shared_only}
use Rattle.solid_mesh.proofs.Counted.{edges_counted}
use Rattle.solid_mesh.proofs.solid.Solid.check_metered.Goals as goal

pub returns-in_err-lower_halves-clause-boxes : goal.returns-in_err-lower_halves-clause-boxes
returns-in_err-lower_halves-clause-boxes c =
    edges_counted (part_of c.args.soup) (HaveCommonX (part_of c.args.soup)) c.deref.result.now _ _ c.deref.ensures.value c.in_ok-twins.ensures.twins c.in_ok-twins.ensures.closed.once c.find_edges.ensures.boxes

pub returns-in_err-lower_halves-clause-pairs : goal.returns-in_err-lower_halves-clause-pairs
returns-in_err-lower_halves-clause-pairs c =
    edges_counted (part_of c.args.soup) (HaveCommonBox (part_of c.args.soup)) c.deref.result.now _ _ c.deref.ensures.value c.in_ok-twins.ensures.twins c.in_ok-twins.ensures.closed.once c.find_edges.ensures.pairs

pub returns-in_err-stars-clause-boxes : goal.returns-in_err-stars-clause-boxes
returns-in_err-stars-clause-boxes c =
    edges_counted (part_of c.args.soup) (HaveCommonX (part_of c.args.soup)) c.deref.result.now _ _ c.deref.ensures.value c.in_ok-twins.ensures.twins c.in_ok-twins.ensures.closed.once c.find_edges.ensures.boxes

pub returns-in_err-stars-clause-pairs : goal.returns-in_err-stars-clause-pairs
returns-in_err-stars-clause-pairs c =
    edges_counted (part_of c.args.soup) (HaveCommonBox (part_of c.args.soup)) c.deref.result.now _ _ c.deref.ensures.value c.in_ok-twins.ensures.twins c.in_ok-twins.ensures.closed.once c.find_edges.ensures.pairs

pub returns-clause-boxes : goal.returns-clause-boxes
returns-clause-boxes c =
    edges_counted (part_of c.args.soup) (HaveCommonX (part_of c.args.soup)) c.deref.result.now _ _ c.deref.ensures.value c.in_ok-twins.ensures.twins c.in_ok-twins.ensures.closed.once c.find_edges.ensures.boxes

pub returns-clause-pairs : goal.returns-clause-pairs
returns-clause-pairs c =
    edges_counted (part_of c.args.soup) (HaveCommonBox (part_of c.args.soup)) c.deref.result.now _ _ c.deref.ensures.value c.in_ok-twins.ensures.twins c.in_ok-twins.ensures.closed.once c.find_edges.ensures.pairs

pub returns-clause-sound : goal.returns-clause-sound
returns-clause-sound c =
    let closed = c.in_ok-twins.ensures.closed in
    record { some = c.requires.some_triangle; closed = closed; no_double = c.in_ok-twins.ensures.no_double; apart = shared_only (part_of c.args.soup) closed c.in_ok-lower_halves.ensures.apart }
