use Rattle.std.proofs.Common.{arith, Bor, List, ℕ, ◌∙◌, sym, refl, inl, inr, Some, []}
use Rattle.csv.specs.Reading.{Reached, default_config, strip_bom}
use Rattle.csv.specs.Records.{fields_of}
use Rattle.csv.specs.declared.parser.State.TheVariants as st
use Rattle.csv.proofs.ReadFacts.{rows-end, rows-more}
use Rattle.rows.proofs.Records.{all-records, list-of}
use Rattle.rows.proofs.Sizes.{record-is, reached-count, strip-short}
use Rattle.rows.proofs.reading.read_rows.Goals as goal

pub loop-row-init : goal.loop-row-init
unfolding Reached
loop-row-init c =
    let fr = c.from_reader-reader.ensures in
    let e = c.has_headers.ensures in
    let f = c.flexible.ensures in
    let start = c.into_iter-row-iterator.ensures.into_iter_gives ∙ refl in
    let rdr = c.into_byte_records-row-items.ensures.rdr in
    let left = c.into_byte_records-row-items.ensures.left in
    rw (start, rdr, c.new-rows.ensures) (record {
      rest = strip_bom c.args.bytes.now;
      source = fr.source;
      reached = (sym fr.state, refl);
      none = refl;
      config = rw (f, e) at fr.config ∙ c.new.ensures.config;
      trim = rw (f, e) at fr.trim ∙ c.new.ensures.trim;
      ready = inr (inr (rw (f, e) at fr.has_headers, fr.headers));
      flexible = rw f at fr.flexible;
      turns = left;
    })

pub add_record-requires-clause-filled : goal.add_record-requires-clause-filled
add_record-requires-clause-filled c =
    let inv = c.loop-row.invariant in
    let step = rw (c.in-Some.is, c.in-Ok.is) at ((c.next.ensures.steps inv.turns inv.trim).0 inv.ready) in
    (record-is c.loop-row.row-iterator.rdr.config _ inv.rest _ _ _ inv.config (rw inv.source at step.0.0)).filled

pub add_record-requires-clause-fits : goal.add_record-requires-clause-fits
add_record-requires-clause-fits c =
    let inv = c.loop-row.invariant in
    let step = rw (c.in-Some.is, c.in-Ok.is) at ((c.next.ensures.steps inv.turns inv.trim).0 inv.ready) in
    let few = (record-is c.loop-row.row-iterator.rdr.config _ inv.rest _ _ _ inv.config (rw inv.source at step.0.0)).few in
    let count = reached-count st.StartRecord _ (strip_bom c.args.bytes.now) inv.rest c.loop-row.rows.closed refl inv.reached in
    omega (arith, few, count, strip-short c.args.bytes.now, c.requires)

pub add_record-requires-clause-room : goal.add_record-requires-clause-room
add_record-requires-clause-room c =
    let inv = c.loop-row.invariant in
    let count = reached-count st.StartRecord _ (strip_bom c.args.bytes.now) inv.rest c.loop-row.rows.closed refl inv.reached in
    omega (arith, count, strip-short c.args.bytes.now, c.requires)

pub loop-row-preserved : goal.loop-row-preserved
loop-row-preserved c =
    let inv = c.loop-row.invariant in
    let steps = rw (c.in-Some.is, c.in-Ok.is) at (c.next.ensures.steps inv.turns inv.trim) in
    let step = rw (c.in-Some.is, c.in-Ok.is) at ((c.next.ensures.steps inv.turns inv.trim).0 inv.ready) in
    let more = rows-more (λ (s : Bor (List ℕ)). Some s.now) c.loop-row.row-iterator.rdr c.next.new.self.rdr (fields_of c.in-Ok.row) default_config st.StartRecord
    (strip_bom c.args.bytes.now) inv.rest c.loop-row.rows.closed inv.config inv.source inv.reached step.0 in
    let added = c.in_ok-add_record-in-Ok.ensures in
    record {
      rest = more.0;
      source = more.1;
      reached = rw added more.2;
      none = rw added refl;
      config = step.0.2 ∙ inv.config;
      trim = step.0.3 ∙ inv.trim;
      ready = inl step.1;
      flexible = steps.3 ∙ inv.flexible;
      turns = step.2;
    }

pub returns : goal.returns
returns c =
    let inv = c.loop-row.invariant in
    let step = rw c.in-None.is at ((c.next.ensures.steps inv.turns inv.trim).0 inv.ready) in
    let end = rows-end (λ (s : Bor (List ℕ)). Some s.now) c.loop-row.row-iterator.rdr c.next.new.self.rdr [] default_config inv.rest inv.config inv.source step in
    let all = all-records (strip_bom c.args.bytes.now) c.loop-row.rows.closed (c.loop-row.row-iterator.rdr.state, inv.rest, inv.reached, end) in
    list-of c.loop-row.rows _ all inv.none
