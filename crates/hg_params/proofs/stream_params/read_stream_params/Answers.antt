use Rattle.std.proofs.Common.{◌∙◌, ap, subst}
use Rattle.std.specs.List.{before_first}
use Rattle.std.specs.Option.{option_map}
use Rattle.std.proofs.lemmas.Result.{err_from_is_err_and}
use Rattle.hg_params.specs.StreamParams.{is_space, behind_first}
use Rattle.hg_params.proofs.Pieces.{ReadSo, read_one, piece_told, all_read, shorter}
use Rattle.hg_params.proofs.stream_params.read_stream_params.Goals as goal

pub returns-clause-ok : goal.returns-clause-ok
returns-clause-ok g c =
    all_read c.args.bytes.now c.loop-rest.params
    (subst (λ rest. ReadSo c.args.bytes.now c.loop-rest.params (option_map (λ text. text.now) rest))
    c.in_default.is c.loop-rest.invariant)

pub returns-in_err-read_piece-clause-err : goal.returns-in_err-read_piece-clause-err
returns-in_err-read_piece-clause-err g c =
    let p = err_from_is_err_and c.from_residual.result c.from_residual.ensures.1 in
    let so = subst (λ rest. ReadSo c.args.bytes.now c.loop-rest.params (option_map (λ text. text.now) rest))
    c.in-Some.is c.loop-rest.invariant in
    let before = c.split_once.ensures.before
    ∙ ap (λ text. before_first is_space text.now) c.in-Some.text-is in
    let behind = c.split_once.ensures.behind
    ∙ ap (λ text. behind_first is_space text.now) c.in-Some.text-is in
    rw p.1 (piece_told c.args.bytes.now c.loop-rest.params c.in-Some.text.now c.split_once.result.0.now
    (option_map (λ text. text.now) c.split_once.result.1) c.in_err-read_piece.field-0.0 p.0 so before
    behind p.2 c.in_err-read_piece.ensures.err)

pub loop-rest-smaller : goal.loop-rest-smaller
loop-rest-smaller g c =
    let behind = c.split_once.ensures.behind
    ∙ ap (λ text. behind_first is_space text.now) c.in-Some.text-is in
    shorter (option_map (λ text. text.now) c.split_once.result.1)
    (option_map (λ text. text.now) c.loop-rest.rest) c.in-Some.text.now
    (ap (option_map (λ text. text.now)) c.in-Some.is) behind

pub loop-rest-preserved : goal.loop-rest-preserved
loop-rest-preserved g c =
    let so = subst (λ rest. ReadSo c.args.bytes.now c.loop-rest.params (option_map (λ text. text.now) rest))
    c.in-Some.is c.loop-rest.invariant in
    let before = c.split_once.ensures.before
    ∙ ap (λ text. before_first is_space text.now) c.in-Some.text-is in
    let behind = c.split_once.ensures.behind
    ∙ ap (λ text. behind_first is_space text.now) c.in-Some.text-is in
    read_one c.args.bytes.now c.loop-rest.params c.push.new.self c.in-Some.text.now c.split_once.result.0.now
    (option_map (λ text. text.now) c.split_once.result.1) _ so before behind
    c.in_ok-read_piece.ensures.ok.0 c.in_ok-read_piece.ensures.ok.1 c.in_ok-push.ensures.ok
