-- The rule tells which monitors identify, and what it places is the lowest set.
use Rattle.std.proofs.Common.{◌≡◌, ℕ, nat_lt, Bool, not, ◌&&◌, ap, ◌∙◌, arith}
use Rattle.tomo_base.specs.Sets.{size}
use Rattle.tomo_base.proofs.Counts.{count-same}
use Rattle.ident_laws.proofs.BadParts.{no_bad_part}
use Rattle.ident_laws.proofs.Boundary.{no_bad_part-wider}
use Rattle.ident_laws.proofs.Chosen.{one_lowest_by_number}
use Rattle.cross_links.proofs.Identifying.{no_bad_part_identifies}
use Rattle.mmp_place.specs.Rule.{placed_by}
use Rattle.mmp_place.specs.Laws.{RuleTells, PlacedIsLowest, PlacedIsOne}
use Rattle.mmp_place.proofs.Nodes.{all_joined}
use Rattle.mmp_place.proofs.Passing.{passing_is_good, good_passes}
use Rattle.mmp_place.proofs.Placing.{placed_is_good, placed_is_least}

-- monitors identify every link exactly where they pass the tests
pub rule_tells : RuleTells
rule_tells g m graph connected three = (
  (λ identifies. good_passes g m graph three (no_bad_part g m graph connected (omega (arith, three)) identifies)),
  (λ passes. no_bad_part_identifies g graph m (passing_is_good g m graph (all_joined g graph connected) passes)),
)

-- what the rule places is the lowest set
pub placed_is_lowest : PlacedIsLowest
placed_is_lowest g m graph connected three by =
    let p : ℕ → Bool = placed_by g by.three_blocks by.blocks in
    record {
      identifies = no_bad_part_identifies g graph m (no_bad_part-wider g p m (λ v l h. by.placed v l ∙ h)
          (placed_is_good g graph connected three by.three_blocks by.blocks by.all_three_blocks by.all_blocks));
      lowest = λ s identifies h.
          let same : size g (λ v. m v && not (nat_lt v h)) ≡ size g (λ v. p v && not (nat_lt v h)) =
          count-same g.nodes (λ v. m v && not (nat_lt v h)) (λ v. p v && not (nat_lt v h)) (λ v l. ap (λ b. b && not (nat_lt v h)) (by.placed v l)) in
          omega (
            arith,
            same,
            placed_is_least g graph connected three by.three_blocks by.blocks by.all_three_blocks by.all_blocks s (no_bad_part g s graph connected (omega (arith, three)) identifies) h,
          );
    }

-- so it places just one set
pub placed_is_one : PlacedIsOne
placed_is_one g m w graph connected three by_m by_w = one_lowest_by_number g m w (placed_is_lowest g m graph connected three by_m) (placed_is_lowest g w graph connected three by_w)
