use Rattle.std.proofs.Common.{sym, ◌∙◌}
use Rattle.hg_http.proofs.Following.{follows_read}
use Rattle.hg_http.proofs.follow.Reader.read_event.Goals as goal

pub returns-in-Head-clause-at : goal.returns-in-Head-clause-at
returns-in-Head-clause-at c = λ other stream count x.
    let r = c.args.self.now in
    let read = c.in-Ok.read in
    follows_read r.limits r.server c.read.new.self c.args.bytes.now c.read.new.headers read stream count
    c.in-Ok.ensures.ok (λ e. let clash = sym c.in-Head.is ∙ e in cc) (λ e. let clash = sym c.in-Head.is ∙ e in cc)
    (λ e. let clash = sym c.in-Head.is ∙ e in cc) x

pub returns-in-Data-clause-at : goal.returns-in-Data-clause-at
returns-in-Data-clause-at c = λ other stream count x.
    let r = c.args.self.now in
    let read = c.in-Ok.read in
    follows_read r.limits r.server c.read.new.self c.args.bytes.now c.read.new.headers read stream count
    c.in-Ok.ensures.ok (λ e. let clash = sym c.in-Data.is ∙ e in cc) (λ e. let clash = sym c.in-Data.is ∙ e in cc)
    (λ e. let clash = sym c.in-Data.is ∙ e in cc) x

pub returns-in-End-clause-at : goal.returns-in-End-clause-at
returns-in-End-clause-at c = λ other stream count x.
    let r = c.args.self.now in
    let read = c.in-Ok.read in
    follows_read r.limits r.server c.read.new.self c.args.bytes.now c.read.new.headers read stream count
    c.in-Ok.ensures.ok (λ e. let clash = sym c.in-End.is ∙ e in cc) (λ e. let clash = sym c.in-End.is ∙ e in cc)
    (λ e. let clash = sym c.in-End.is ∙ e in cc) x

pub returns-in-NeedMore-clause-at : goal.returns-in-NeedMore-clause-at
returns-in-NeedMore-clause-at c = λ other stream count x.
    let r = c.args.self.now in
    let read = c.in-Ok.read in
    follows_read r.limits r.server c.read.new.self c.args.bytes.now c.read.new.headers read stream count
    c.in-Ok.ensures.ok (λ e. let clash = sym c.in-NeedMore.is ∙ e in cc)
    (λ e. let clash = sym c.in-NeedMore.is ∙ e in cc) (λ e. let clash = sym c.in-NeedMore.is ∙ e in cc) x
