use Rattle.std.proofs.Common.{◌≤◌, ◌<◌, ◌-◌, length, take, arith, refl, length-take}
use Rattle.ds_text.specs.Pieces.{EndsAt}
use Rattle.ds_text.proofs.PieceLemmas.{part, line_moved, whole_moved, length-part}
use Rattle.ds_text.proofs.line_reader.Lines.take_piece.Goals as goal

pub returns-in_ok-keep-in-Some-clause-found : goal.returns-in_ok-keep-in-Some-clause-found
returns-in_ok-keep-in-Some-clause-found g c = λ _.
    let s = c.self.inside in
    let ends : EndsAt (part c.deref.result.now s.at s.end) c.in-Some.len = c.in-Some.ensures.found in
    let within : s.end ≤ length c.deref.result.now = rw c.deref.ensures.len c.self.invariant.1 in
    let size = length-part c.deref.result.now s.at s.end within in
    rw (← c.self.view_is, ← c.deref.ensures.value) (record {
      piece = take c.in-Some.len (part c.deref.result.now s.at s.end);
      free = ends.1;
      left = line_moved c.deref.result.now s.at s.end c.in-Some.len (g.S.Source.rest s.source) c.self.invariant.0 within ends;
      room = omega (arith, ends.0, size, length-take c.in-Some.len (part c.deref.result.now s.at s.end), c.self.invariant.0);
      some = omega arith;
      into = c.in_ok-keep-in-Some.ensures;
      faults = refl;
    })

pub returns-in_ok-keep-in-None-clause-open : goal.returns-in_ok-keep-in-None-clause-open
returns-in_ok-keep-in-None-clause-open g c = λ _.
    let s = c.self.inside in
    let within : s.end ≤ length c.deref.result.now = rw c.deref.ensures.len c.self.invariant.1 in
    let size = length-part c.deref.result.now s.at s.end within in
    let some : 0 < s.end - s.at = rw (← c.self.view_is) at c.requires.some in
    rw (← c.self.view_is, ← c.deref.ensures.value) (record {
      piece = part c.deref.result.now s.at s.end;
      free = c.in-None.ensures.«open»;
      left = whole_moved c.deref.result.now (g.S.Source.rest s.source) s.at s.end;
      room = omega (arith, size, c.self.invariant.0);
      some = omega (arith, size);
      into = c.in_ok-keep-in-None.ensures;
      faults = refl;
    })
