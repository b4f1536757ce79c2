-- What the terms of nodes and links weigh, whatever paths weigh.
use Rattle.std.proofs.Common.{◌≡◌, ℕ, ◌+◌, ◌*◌, Bool, true, false, Some, None, refl, ap, ◌∙◌, inl, inr, arith}
use Rattle.std.proofs.lemmas.Bool.{cases_Bool}
use Rattle.tomo_base.specs.Recipes.{gain_of, loss_of}
use Rattle.simple_path.specs.Terms.{weighted_by}
use Rattle.plan_form.proofs.Tied.{weighted_by-append}
use Rattle.stpc_paths.specs.Roots.{after}
use Rattle.stpc_paths.specs.Terms.{node_terms, link_terms}

module _ (m : ℕ → Bool) (name : ℕ → ℕ → ℕ) (weight : ℕ → ℕ) where
  -- what the terms of a node gain and lose
  abbrev pub gain_at : ℕ → ℕ → ℕ
  gain_at i v = weighted_by gain_of weight (node_terms m name true i v)

  abbrev pub loss_at : ℕ → ℕ → ℕ
  loss_at i v = weighted_by loss_of weight (node_terms m name true i v)

  -- a monitor has none
  pub ends_weigh : (i v : ℕ) → m v ≡ true → (gain_at i v ≡ 0) × (loss_at i v ≡ 0)
  unfolding weighted_by
  ends_weigh i v e = (rw e refl, rw e refl)

  -- another node has its three paths
  pub free_weigh : (i v : ℕ) → m v ≡ false → (gain_at i v ≡ weight (name i v) + weight (name (after (after i)) v)) × (loss_at i v ≡ weight (name (after i) v))
  unfolding weighted_by
  free_weigh i v e = (rw e (omega arith), rw e (omega arith))

  -- the opposite terms lose what these gain
  opposite : (i v : ℕ) → (weighted_by gain_of weight (node_terms m name false i v) ≡ loss_at i v) × (weighted_by loss_of weight (node_terms m name false i v) ≡ gain_at i v)
  unfolding weighted_by
  opposite i v = elim (cases_Bool (m v)) [ inl e ↦ (rw e refl, rw e refl) | inr e ↦ (rw e refl, rw e refl) ]

  -- what the terms of a link in a tree gain and lose
  pub inside_weigh : (e i v w : ℕ) → (weighted_by gain_of weight (link_terms m name e v w (Some i)) ≡ gain_at i v + loss_at i w) × (weighted_by loss_of weight (link_terms m name e v w (Some i)) ≡ loss_at i v + gain_at i w)
  inside_weigh e i v w = (
    weighted_by-append gain_of weight (node_terms m name true i v) (node_terms m name false i w) ∙ ap (λ n. gain_at i v + n) (opposite i w).0,
    weighted_by-append loss_of weight (node_terms m name true i v) (node_terms m name false i w) ∙ ap (λ n. loss_at i v + n) (opposite i w).1,
  )

  -- and those of a link outside the trees
  pub outside_weigh : (e v w : ℕ) → (weighted_by gain_of weight (link_terms m name e v w None) ≡ 2 * weight e + loss_at 0 v + loss_at 1 w) × (weighted_by loss_of weight (link_terms m name e v w None) ≡ gain_at 0 v + gain_at 1 w)
  unfolding weighted_by
  outside_weigh e v w =
      let first = opposite 0 v in
      let second = opposite 1 w in (
        omega (arith, weighted_by-append gain_of weight (node_terms m name false 0 v) (node_terms m name false 1 w), first.0, second.0),
        omega (arith, weighted_by-append loss_of weight (node_terms m name false 0 v) (node_terms m name false 1 w), first.1, second.1),
      )
