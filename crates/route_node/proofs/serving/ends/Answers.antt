use Rattle.route_node.proofs.serving.ends.Goals as goal

pub loop-next-init : goal.loop-next-init
loop-next-init g c = record { running = c.requires; from_all = λ at frames works within. (frames, works, within) }

pub advance-requires : goal.advance-requires
advance-requires g c = c.loop-next.invariant.running

pub loop-next-smaller : goal.loop-next-smaller
loop-next-smaller g c =
    let m = c.loop-next.invariant.running in
    let further = c.in-Ok.ensures.ok m.at m.frames m.works m.within in
    further.goes.less

pub loop-next-preserved : goal.loop-next-preserved
loop-next-preserved g c =
    let m = c.loop-next.invariant.running in
    let further = c.in-Ok.ensures.ok m.at m.frames m.works m.within in
    record {
      running = record { at = m.at; frames = further.frames; works = record { runs = further.goes.runs; keeps = further.keeps }; within = further.goes.within };
      from_all = λ at frames works within.
          let before = c.loop-next.invariant.from_all at frames works within in
          let next = c.in-Ok.ensures.ok at before.0 before.1 before.2 in
          (next.frames, record { runs = next.goes.runs; keeps = next.keeps }, next.goes.within);
    }

pub returns-in-Err : goal.returns-in-Err
returns-in-Err g c = λ at frames works within.
    let before = c.loop-next.invariant.from_all at frames works within in
    c.in-Err.ensures.err at before.0 before.1 before.2
