-- The numbers below a number, in decimal, are different names.
use Rattle.std.proofs.Common.{◌≡◌, ℕ, zero, suc, ◌+◌, ◌<◌, ◌≤◌, ◌^◌, false, [], ◌∷◌, length, refl, ap, ◌∙◌, arith, All, bytes_eq, IsTrue, decimal}
use Rattle.std.specs.List.{list_any, IsDistinct}
use Rattle.std.specs.Cmp.Lexicographic.{nat_list_eq_equiv}
use Rattle.std.proofs.lemmas.Bool.{or_from, false_from_ne_true}
use Rattle.std.proofs.lemmas.Fmt.{decimal_nonempty, length-decimal-le, decimal_injective, IsAscii-decimal}
use Rattle.std.proofs.lemmas.List.{length_push}
use Rattle.std.proofs.lemmas.List.Elements.{All-push}
use Rattle.std.proofs.lemmas.List.Folds.{list_any-append}
use Rattle.std.proofs.lemmas.Map.Keys.{IsDistinct-push}
use Rattle.std.proofs.lemmas.Slice.Eq.{bytes_eq-Decides}
use Rattle.std.proofs.lemmas.Str.{IsUtf8-from_ascii}
use Rattle.tomo_base.specs.Limits.{link_limit, node_limit}
use Rattle.indexmap.specs.IndexSet.{insert_key}
use Rattle.tomo_base.specs.Network.{Network, IsGraph}
use Rattle.tomo_base.specs.Walks.{IsConnected}
use Rattle.topology.specs.Names.{is_name}
use Rattle.topology.specs.Numbered.{decimals, with_numbers}
use Rattle.topology.specs.Topology.{IsTopology}
use Rattle.topology.proofs.Distinct.{insert_new}
use Rattle.topology.proofs.Numbers.{names_differ}
use Rattle.topology.proofs.Texts.{name_from}

-- a number of 32 bits is no number below k if it is k or more
new_decimal : (k v : ℕ) → k ≤ v → v < 2 ^ 32 → list_any (bytes_eq (decimal v)) (decimals k) ≡ false
unfolding decimals
new_decimal zero v le small = refl
new_decimal (suc k) v le small =
    rw (list_any-append (bytes_eq (decimal v)) (decimals k) (decimal k ∷ []))
    (or_from _ _ (new_decimal k v (omega (arith, le)) small) (or_from _ _ other refl))
  where
    other : bytes_eq (decimal v) (decimal k) ≡ false
    other = false_from_ne_true _ (λ e.
        let same : v ≡ k = decimal_injective v k (omega (arith, small)) (omega (arith, le, small)) ((bytes_eq-Decides (decimal v) (decimal k)).0 e) in
        omega (arith, same, le))

-- one number more
pub decimals_more : (k : ℕ) → k < 2 ^ 32 → insert_key bytes_eq (decimals k) (decimal k) ≡ decimals (k + 1)
unfolding decimals
decimals_more k small =
    let next : suc k ≡ k + 1 = omega arith in
    insert_new bytes_eq (decimals k) (decimal k) (new_decimal k k (omega arith) small) ∙ ap decimals next

-- there is one for each number
pub length-decimals : (k : ℕ) → length (decimals k) ≡ k
unfolding decimals
length-decimals zero = refl
length-decimals (suc k) = length_push (decimals k) (decimal k) ∙ omega (arith, length-decimals k)

-- each is a name
decimals_are_names : (k : ℕ) → k ≤ 2 ^ 32 → All (λ name. IsTrue (is_name name)) (decimals k)
unfolding decimals
decimals_are_names zero le = λ i d l. absurd (omega (arith, l))
decimals_are_names (suc k) le = All-push (λ name. IsTrue (is_name name)) (decimals k) (decimal k) (decimals_are_names k (omega (arith, le)))
    (name_from (decimal k) (decimal_nonempty k (omega (arith, le))) (omega (arith, length-decimal-le 10 k (omega arith) (omega (arith, le)) (omega (arith, le)))) (IsUtf8-from_ascii (decimal k) (IsAscii-decimal k (omega (arith, le)))))

-- and no two are equal
decimals_differ : (k : ℕ) → k ≤ 2 ^ 32 → IsDistinct bytes_eq (decimals k)
unfolding decimals IsDistinct
decimals_differ zero le = tt
decimals_differ (suc k) le = IsDistinct-push nat_list_eq_equiv (decimals k) (decimal k) (decimals_differ k (omega (arith, le))) (new_decimal k k (omega arith) (omega (arith, le)))

-- so a connected graph within the limits is a topology with these names
pub numbered_is_topology : (g : Network) → IsGraph g → IsConnected g → 3 ≤ g.nodes → g.nodes ≤ node_limit → length g.links ≤ link_limit → IsTopology (with_numbers g)
numbered_is_topology g graph connected some few few_links = record {
  graph = graph;
  connected = connected;
  some_nodes = some;
  few_nodes = few;
  few_links = few_links;
  one_each = length-decimals g.nodes;
  named = decimals_are_names g.nodes (omega (arith, few));
  different = names_differ (decimals g.nodes) (decimals_differ g.nodes (omega (arith, few)));
}
