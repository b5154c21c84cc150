use Rattle.std.proofs.Common.{ℕ, List, ◌++◌, refl, ap, ◌∙◌}
use Rattle.hg_params.proofs.Growing.{on_err, grown_none, grown_same, grown_more, grown_then}
use Rattle.hg_params.proofs.Spelling.{header_written}
use Rattle.hg_params.proofs.write.append_head.Goals as goal

pub returns-in_err-push-clause-err : goal.returns-in_err-push-clause-err
returns-in_err-push-clause-err g c =
    on_err c.from_residual.result _ (grown_none _ _ c.in_err-push.ensures.items)

pub returns-in_err-push-2-clause-err : goal.returns-in_err-push-2-clause-err
returns-in_err-push-2-clause-err g c =
    let old = c.args.out.now.items in
    let first = grown_more old old c.push.new.self.items _
    (grown_none old old refl) c.in_ok-push.ensures.items in
    let kind = grown_more old c.push.new.self.items c.append_kind.new.out.items _ first
    c.in_ok-append_kind.ensures.ok in
    let id = grown_more old c.append_kind.new.out.items c.extend_from_slice.new.self.items _ kind
    c.in_ok-extend_from_slice.ensures.items in
    on_err c.from_residual-in_err-push-2.result _
    (grown_same old c.extend_from_slice.new.self.items _ id c.in_err-push-2.ensures.items)

pub returns-in_err-push-3-clause-err : goal.returns-in_err-push-3-clause-err
returns-in_err-push-3-clause-err g c =
    let old = c.args.out.now.items in
    let first = grown_more old old c.push.new.self.items _
    (grown_none old old refl) c.in_ok-push.ensures.items in
    let kind = grown_more old c.push.new.self.items c.append_kind.new.out.items _ first
    c.in_ok-append_kind.ensures.ok in
    let id = grown_more old c.append_kind.new.out.items c.extend_from_slice.new.self.items _ kind
    c.in_ok-extend_from_slice.ensures.items in
    let mandatory = grown_more old c.extend_from_slice.new.self.items c.push-2.new.self.items _ id
    c.in_ok-push-2.ensures.items in
    on_err c.from_residual-in_err-push-3.result _
    (grown_same old c.push-2.new.self.items _ mandatory c.in_err-push-3.ensures.items)

pub returns-in_err-append_sizes-clause-err : goal.returns-in_err-append_sizes-clause-err
returns-in_err-append_sizes-clause-err g c =
    let old = c.args.out.now.items in
    let first = grown_more old old c.push.new.self.items _
    (grown_none old old refl) c.in_ok-push.ensures.items in
    let kind = grown_more old c.push.new.self.items c.append_kind.new.out.items _ first
    c.in_ok-append_kind.ensures.ok in
    let id = grown_more old c.append_kind.new.out.items c.extend_from_slice.new.self.items _ kind
    c.in_ok-extend_from_slice.ensures.items in
    let mandatory = grown_more old c.extend_from_slice.new.self.items c.push-2.new.self.items _ id
    c.in_ok-push-2.ensures.items in
    let advisory = grown_more old c.push-2.new.self.items c.push-3.new.self.items _ mandatory
    c.in_ok-push-3.ensures.items in
    on_err c.from_residual-in_err-append_sizes.result _
    (grown_then old c.push-3.new.self.items _ advisory c.in_err-append_sizes.ensures.err)

pub returns-in_err-append_texts-clause-err : goal.returns-in_err-append_texts-clause-err
returns-in_err-append_texts-clause-err g c =
    let old = c.args.out.now.items in
    let first = grown_more old old c.push.new.self.items _
    (grown_none old old refl) c.in_ok-push.ensures.items in
    let kind = grown_more old c.push.new.self.items c.append_kind.new.out.items _ first
    c.in_ok-append_kind.ensures.ok in
    let id = grown_more old c.append_kind.new.out.items c.extend_from_slice.new.self.items _ kind
    c.in_ok-extend_from_slice.ensures.items in
    let mandatory = grown_more old c.extend_from_slice.new.self.items c.push-2.new.self.items _ id
    c.in_ok-push-2.ensures.items in
    let advisory = grown_more old c.push-2.new.self.items c.push-3.new.self.items _ mandatory
    c.in_ok-push-3.ensures.items in
    let sizes = grown_more old c.push-3.new.self.items c.append_sizes.new.out.items _ advisory
    c.in_ok-append_sizes.ensures.ok in
    on_err c.from_residual-in_err-append_texts.result _
    (grown_then old c.append_sizes.new.out.items _ sizes c.in_err-append_texts.ensures.err)

pub returns-clause-ok : goal.returns-clause-ok
returns-clause-ok g c =
    header_written c.push.new.self.items c.append_kind.new.out.items c.extend_from_slice.new.self.items
    c.push-2.new.self.items c.push-3.new.self.items c.append_sizes.new.out.items
    c.append_texts.new.out.items
    c.args.out.now.items c.args.kind.now c.args.id _ _ _ c.args.params.now c.requires.in_order
    refl c.count_mandatory.ensures c.count_advisory.ensures
    c.in_ok-push.ensures.items c.in_ok-append_kind.ensures.ok (c.in_ok-extend_from_slice.ensures.items
    ∙ ap (λ (bytes : List ℕ). c.append_kind.new.out.items ++ bytes) c.to_be_bytes.ensures)
    c.in_ok-push-2.ensures.items c.in_ok-push-3.ensures.items c.in_ok-append_sizes.ensures.ok
    c.in_ok-append_texts.ensures.ok
