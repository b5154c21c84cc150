use Rattle.std.proofs.Common.{◌≡◌, ◌∙◌, ap, sym, subst, length, List, ℕ, string_bytes}
use Rattle.std.proofs.lemmas.Result.{IfOk-weaker}
use Rattle.hg_store.specs.Entries.{Stamp}
use Rattle.hg_store_tools.specs.Listing.{IsWhen, line_text, who_text}
use Rattle.hg_store_tools.proofs.listing.line_from.Goals as goal

pub returns : goal.returns
returns g c =
    let entry = c.args.entry.now in
    let when : List ℕ = c.as_str.result.now in
    let time : c.time.result ≡ entry.stamp.time = c.time.ensures ∙ ap (λ (s : Stamp). s.time) c.stamp-stamp.ensures in
    let name : c.name.result.now ≡ entry.stamp.name = c.name.ensures ∙ ap (λ (s : Stamp). s.name) c.stamp-stamp.ensures in
    let is_when : IsWhen entry.stamp.time when = subst (IsWhen entry.stamp.time) (sym c.as_str.ensures.value)
    (subst (λ (n : ℕ). IsWhen n (string_bytes c.in_ok-when.when)) time c.in_ok-when.ensures) in
    IfOk-weaker c.line_with.result _ _
    (λ line is. (
      when,
      is_when,
      is
          ∙ ap (λ (n : List ℕ). line_text c.args.place when (who_text n) c.args.count (length c.bundle-bytes.result.now)) name
          ∙ ap (λ (b : List ℕ). line_text c.args.place when (who_text entry.stamp.name) c.args.count (length b))
          c.bundle-bytes.ensures,
    ))
    c.line_with.ensures
