-- Each link in turn gets its root.
use Rattle.std.proofs.Common.{◌≡◌, ℕ, ◌+◌, ◌<◌, ◌≤◌, List, [], ◌∷◌, ◌++◌, length, get_or, slice_get, Some, sym, ap, ◌∙◌, inl, inr, arith}
use Rattle.std.proofs.lemmas.Bool.{cases_eq, cases_lt}
use Rattle.std.proofs.lemmas.List.{length_push, get_or_append_left, get_or_push}
use Rattle.std.proofs.lemmas.Option.{slice_get-get_or, slice_get_within}
use Rattle.tomo_base.specs.declared.graph.Link.{Link}
use Rattle.indep_trees.specs.Trees.{Trees, parent_in, rank_in}
use Rattle.stpc_paths.specs.declared.roots.Root.{Root}
use Rattle.stpc_paths.specs.Roots.{IsRoot}
use Rattle.stpc_paths.specs.Kept.{IsForest, monitor_in, AreRoots}

-- of two nodes the one with the number that is not less has the higher one
pub higher_end : (t : Trees) (a b : ℕ) → IsForest t → a < b → b < t.graph.nodes → rank_in t b ≤ rank_in t a → rank_in t b < rank_in t a
higher_end t a b forest lt below le = elim (cases_eq (rank_in t a) (rank_in t b)) [
  | inl e ↦ (let same : a ≡ b = forest.trees.once a b (omega (arith, lt, below)) below e in omega (arith, same, lt))
  | inr ne ↦ omega (arith, le, ne)
]

-- the first i links have their roots
pub record RootsTo (t : Trees) (links : List Link) (i : ℕ) (roots : List Root) : Type 0 where
  pub size : length roots ≡ i
  pub each : (e : ℕ) (l : Link) (d : Root) → e < i → slice_get links e ≡ Some l → IsRoot (monitor_in t) (parent_in t) (rank_in t) l (get_or roots e d)

-- one more
pub roots_more : (t : Trees) (links : List Link) (i : ℕ) (roots : List Root) (x : Link) (r : Root) → i < length links → ((d : Link) → get_or links i d ≡ x) → IsRoot (monitor_in t) (parent_in t) (rank_in t) x r → RootsTo t links i roots
    → RootsTo t links (i + 1) (roots ++ r ∷ [])
roots_more t links i roots x r lt there root before = record {
  size = omega (arith, length_push roots r, before.size);
  each = λ e l d le at. elim (cases_lt e i) [
    | inl less ↦ rw (get_or_append_left roots (r ∷ []) d e (omega (arith, less, before.size))) (before.each e l d less at)
    | inr ge ↦
        let here : i ≡ e = omega (arith, le, ge) in
        let same : l ≡ x = one (sym at ∙ (ap (slice_get links) (sym here) ∙ slice_get-get_or links i l lt)) ∙ there l in
        rw (get_or_push roots r d e (before.size ∙ here), same) root
  ];
}
  where
    one : {a b : Link} → Some a ≡ Some b → a ≡ b
    one e = cc e

-- all
pub roots_all : (t : Trees) (links : List Link) (i : ℕ) (roots : List Root) → length links ≡ i → RootsTo t links i roots → AreRoots t links roots
roots_all t links i roots size all = record {
  one_each = all.size ∙ sym size;
  each = λ e l d at. all.each e l d (omega (arith, slice_get_within links e l at, size)) at;
}
