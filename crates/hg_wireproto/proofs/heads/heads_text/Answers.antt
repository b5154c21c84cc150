use Rattle.std.proofs.Common.{◌≡◌, ◌≢◌, ◌∙◌, ap, sym, length}
use Rattle.hg_wireproto.specs.Heads.{IsHeadsText}
use Rattle.hg_wireproto.specs.Viewed.{Viewed}
use Rattle.hg_wireproto.proofs.HeadIds.{all_told, if_ok, none_told}
use Rattle.hg_wireproto.proofs.heads.heads_text.Goals as goal

pub returns-then-len-eq0 : goal.returns-then-len-eq0
returns-then-len-eq0 g c =
    let rows = c.args.view.now.rows in
    let none : length rows ≡ 0 = ap (λ (v : Viewed g.row.A.Denot). length v.rows) (sym c.copied.ensures)
    ∙ sym c.len.ensures.len ∙ c.if-len-eq0.true in
    if_ok c.line_of.result _ (IsHeadsText rows) (none_told rows c.in_ok-null_word.field-0.items none
    c.in_ok-null_word.ensures) c.line_of.ensures

pub returns : goal.returns
returns g c =
    let rows = c.args.view.now.rows in
    let some : length rows ≢ 0 = λ none. c.if-len-eq0.false
    (c.len.ensures.len ∙ ap (λ (v : Viewed g.row.A.Denot). length v.rows) c.copied.ensures ∙ none) in
    if_ok c.line_of-2.result _ (IsHeadsText rows) (all_told rows c.heads.result.now.keys
    c.in_ok-words_of.field-0.items some c.heads.ensures c.words_of.ensures.ordered c.in_ok-words_of.ensures.words)
    c.line_of-2.ensures
