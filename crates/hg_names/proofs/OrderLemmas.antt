-- The order of names.
use Rattle.std.proofs.Common.{◌≡◌, ◌≢◌, ℕ, List, false, sym, ap, ◌∙◌, refl, bytes_eq}
use Rattle.std.specs.Ordering.{is_eq, is_lt, ordering_reverse}
use Rattle.std.specs.declared.cmp.Ordering.{Ordering}
use Rattle.std.specs.declared.cmp.Ordering.TheVariants.{Less, Equal, Greater}
use Rattle.std.proofs.lemmas.Cmp.{nat_list_cmp_total, tied_itself}
use Rattle.std.proofs.lemmas.Map.Text.{is_eq-slice_cmp}
use Rattle.std.proofs.lemmas.Slice.Eq.{bytes_eq-Decides}
use Rattle.hg_names.specs.Names.{name_cmp, is_before}

-- the order of names, turned round
pub turned : (a b : List ℕ) (o : Ordering) → name_cmp a b ≡ o → name_cmp b a ≡ ordering_reverse o
turned a b o is = nat_list_cmp_total.antisymm b a ∙ ap ordering_reverse is

-- a name that comes before or after is another
pub is_other : (a b : List ℕ) (o : Ordering) → name_cmp a b ≡ o → bytes_eq a b ≡ is_eq o
is_other a b o is = sym (is_eq-slice_cmp a b) ∙ ap is_eq is

pub names_equal : (a b : List ℕ) → name_cmp a b ≡ Equal → a ≡ b
names_equal a b is = (bytes_eq-Decides a b).0 (is_other a b Equal is)

pub not_before_itself : (name : List ℕ) → is_before name name ≡ false
not_before_itself name = ap is_lt (tied_itself nat_list_cmp_total name)

pub before_all : (a b c : List ℕ) → name_cmp a b ≡ Less → name_cmp b c ≡ Less → name_cmp a c ≡ Less
before_all a b c first second = nat_list_cmp_total.trans a b c first second

-- what comes before a name that is not greater
pub before_upto : (a b c : List ℕ) → name_cmp a b ≡ Less → name_cmp b c ≢ Greater → name_cmp a c ≡ Less
before_upto a b c less upto = by (name_cmp b c) refl
  where
    by : (o : Ordering) → name_cmp b c ≡ o → name_cmp a c ≡ Less
    by Less is = before_all a b c less is
    by Equal is = ap (name_cmp a) (sym (names_equal b c is)) ∙ less
    by Greater is = absurd (upto is)

-- what comes after a greater name
pub behind_greater : (a b c : List ℕ) → name_cmp b a ≡ Less → name_cmp b c ≡ Greater → name_cmp a c ≡ Greater
behind_greater a b c less more = turned c a Less (before_all c b a (turned b c Greater more) less)
