use Rattle.std.proofs.Common.{◌≡◌, ◌∙◌, ◌-◌, ◌++◌, ℕ, List, ap, arith, subst, sym}
use Rattle.hg_store.specs.Again.{HasGates}
use Rattle.hg_store.specs.Entries.{Entry}
use Rattle.hg_store.specs.Head.{head_for}
use Rattle.hg_store.specs.Standbys.{HasHeading}
use Rattle.hg_store.specs.declared.head.Head.{Head}
use Rattle.hg_store.proofs.Followed.{last_place, look_more}
use Rattle.hg_store.proofs.front.Opening.still_stands.Goals as goal

pub returns-clause-read : goal.returns-clause-read
returns-clause-read g c = λ setup has. record {
  allowed = has.allowed;
  each = has.each;
  read = c.in_ok-look.ensures.same ∙ c.in_ok-are_open.ensures.same ∙ has.read;
  place = has.place;
  chained = has.chained;
  count = has.count;
  kept = has.kept;
}

pub returns-clause-looks : goal.returns-clause-looks
returns-clause-looks g c =
    look_more (g.C.Calls.history c.args.self.now.calls) (g.C.Calls.history c.are_open.new.calls)
    (g.C.Calls.history c.look.new.self) _ c.in_ok-look.ensures.looked.0 c.are_open.ensures.looks
    c.in_ok-look.ensures.looked.2

pub returns-clause-still : goal.returns-clause-still
returns-clause-still g c = λ setup has yes.
    let head : Head = head_for setup c.args.self.now.identity in
    let records : List Entry = c.args.self.now.records.entries in
    let gates : List ℕ = c.args.self.now.gates.items in
    let at : ℕ = c.len-count.result - 1 in
    let looked = c.in_ok-look.ensures.looked in
    let bytes : c.deref.result.now ≡ looked.0 = c.deref.ensures.value ∙ looked.1
    ∙ ap (λ (l : List ℕ). l ++ looked.0) c.clear.ensures.items in
    record {
      at = c.index-last.result.now;
      bytes = looked.0;
      mid = g.C.Calls.history c.are_open.new.calls;
      opened = c.in_ok-are_open.ensures.opened head records
          (subst (HasGates head records) (sym c.as_slice.ensures.value) has.kept) c.if-not-branch.false;
      last = looked.2;
      place = λ k is.
          last_place head records gates has.kept at c.index-last.result.now
          (omega (arith, c.len-count.ensures, c.if-count-eq0.false)) c.index-last.ensures k is;
      has = subst (λ (d : List ℕ). HasHeading d looked.0) has.chained
          (subst (HasHeading c.args.self.now.digest) bytes (c.has_digest.ensures yes));
    }
