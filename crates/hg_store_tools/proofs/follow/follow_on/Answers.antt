use Rattle.std.proofs.Common.{◌≡◌, [], sym, ◌∙◌, vec_len}
use Rattle.std.proofs.lemmas.Bool.{eqb-true}
use Rattle.std.proofs.lemmas.List.{nil_from_length}
use Rattle.hg_store_tools.proofs.Followings.{step_idle, step_sent, step_starves, step_unsent, step_unsynced}
use Rattle.hg_store_tools.proofs.follow.follow_on.Goals as goal

pub returns-in-Err-clause-err : goal.returns-in-Err-clause-err
returns-in-Err-clause-err g c =
    let some = c.in-Err.ensures.some in
    step_starves g.row.A.Denot c.args.log.now (g.T.StoreTrail.first c.args.trail.now) c.args.place
    (g.T.StoreTrail.found c.args.trail.now)
    (g.T.StoreTrail.durable c.args.trail.now) (g.T.StoreTrail.found c.find_more.new.trail)
    (g.T.StoreTrail.durable c.find_more.new.trail) some.0 (g.W.Writer.told c.args.writer.now).taken c.requires some.1
    c.in-Err.ensures.durable c.in-Err.fault c.in-Err.ensures.why

pub returns-then-is_empty-clause-ok : goal.returns-then-is_empty-clause-ok
returns-then-is_empty-clause-ok g c =
    let more = c.in-Ok.more.records in
    let none : vec_len more ≡ 0 = eqb-true _ _ (sym c.is_empty.ensures ∙ c.if-is_empty.true) in
    let nil : more.items ≡ [] = nil_from_length more.items (sym more.ok.0 ∙ none) in
    step_idle g.row.A.Denot c.args.log.now (g.T.StoreTrail.first c.args.trail.now) c.args.place
    (g.T.StoreTrail.found c.args.trail.now)
    (g.T.StoreTrail.durable c.args.trail.now) (g.T.StoreTrail.found c.find_more.new.trail)
    (g.T.StoreTrail.durable c.find_more.new.trail) more.items (g.W.Writer.told c.args.writer.now).taken c.requires
    c.in-Ok.ensures.found c.in-Ok.ensures.durable nil

pub returns-in-Err-sync-clause-err : goal.returns-in-Err-sync-clause-err
returns-in-Err-sync-clause-err g c =
    step_unsynced g.row.A.Denot c.args.log.now (g.T.StoreTrail.first c.args.trail.now) c.args.place
    (g.T.StoreTrail.found c.args.trail.now)
    (g.T.StoreTrail.durable c.args.trail.now) (g.T.StoreTrail.found c.find_more.new.trail)
    (g.T.StoreTrail.durable c.find_more.new.trail) c.in-Ok.more.records.items (g.W.Writer.told c.args.writer.now).taken
    c.requires c.in-Ok.ensures.found c.in-Ok.ensures.durable (g.T.StoreTrail.found c.sync.new.self)
    (g.T.StoreTrail.durable c.sync.new.self) c.in-Err-sync.ensures.found c.in-Err-sync.fault c.in-Err-sync.ensures.not
    c.in-Err-sync.ensures.why

pub returns-in-Ok-write_frames-clause-ok : goal.returns-in-Ok-write_frames-clause-ok
returns-in-Ok-write_frames-clause-ok g c =
    step_sent g.row.A.Denot c.args.log.now (g.T.StoreTrail.first c.args.trail.now) c.args.place
    (g.T.StoreTrail.found c.args.trail.now)
    (g.T.StoreTrail.durable c.args.trail.now) (g.T.StoreTrail.found c.find_more.new.trail)
    (g.T.StoreTrail.durable c.find_more.new.trail) c.in-Ok.more.records.items (g.W.Writer.told c.args.writer.now).taken
    c.requires c.in-Ok.ensures.found c.in-Ok.ensures.durable (g.T.StoreTrail.found c.sync.new.self)
    (g.T.StoreTrail.durable c.sync.new.self) c.in-Ok-sync.ensures.found c.as_slice.result.now
    (g.W.Writer.told c.write_frames.new.writer).taken c.in-Ok-sync.ensures.durable c.as_slice.ensures.value
    c.in-Ok-write_frames.next c.in-Ok-write_frames.ensures.ok

pub returns-clause-err : goal.returns-clause-err
returns-clause-err g c =
    step_unsent g.row.A.Denot c.args.log.now (g.T.StoreTrail.first c.args.trail.now) c.args.place
    (g.T.StoreTrail.found c.args.trail.now)
    (g.T.StoreTrail.durable c.args.trail.now) (g.T.StoreTrail.found c.find_more.new.trail)
    (g.T.StoreTrail.durable c.find_more.new.trail) c.in-Ok.more.records.items (g.W.Writer.told c.args.writer.now).taken
    c.requires c.in-Ok.ensures.found c.in-Ok.ensures.durable (g.T.StoreTrail.found c.sync.new.self)
    (g.T.StoreTrail.durable c.sync.new.self) c.in-Ok-sync.ensures.found c.as_slice.result.now
    (g.W.Writer.told c.write_frames.new.writer).taken c.in-Ok-sync.ensures.durable c.as_slice.ensures.value
    c.in-Err-write_frames.fault c.in-Err-write_frames.ensures.err
