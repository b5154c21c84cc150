use Rattle.std.proofs.Common.{ℕ, List, Option, ap, ◌∙◌}
use Rattle.hg_sizes.specs.Bases.{text_on, with_entry}
use Rattle.hg_sizes.specs.Weights.{noted}
use Rattle.hg_sizes.specs.code.Maps.{texts_of}
use Rattle.hg_sizes.proofs.bases.add_entry.Goals as goal

pub returns-in_ok-note-in-Some-clause-texts : goal.returns-in_ok-note-in-Some-clause-texts
unfolding with_entry
returns-in_ok-note-in-Some-clause-texts g c =
    c.in_ok-note-in-Some.ensures
    ∙ ap (λ (text : Option (List ℕ)). noted (texts_of c.args.texts.now) c.args.entry.now.node text)
    (c.in_ok-text-in-Some.ensures ∙ ap (text_on c.args.most c.args.entry.now) c.in-Some.ensures)

pub returns-in_ok-note-in-None-clause-texts : goal.returns-in_ok-note-in-None-clause-texts
unfolding with_entry
returns-in_ok-note-in-None-clause-texts g c =
    c.in_ok-note-in-None.ensures
    ∙ ap (λ (base : Option (List ℕ)). noted (texts_of c.args.texts.now) c.args.entry.now.node
    (text_on c.args.most c.args.entry.now base)) c.in-None.ensures
