-- `scanning::scan_without` meets its contract. The link that sets v holds it (`held`); with v's stay in the tables they are those of the panel without
-- the link, and what is worked out and found over them is that panel's (`scanned`, `tabled_dropped`).
use borrow.Author.Rules.{rules}
use Rattle.fieldset.specs.Tables.{at}
use Rattle.tables.proofs.Settings.{places}
use Rattle.scanning.proofs.Dropped.{Held, rest_acyclic, scanned, tabled_dropped}
use Rattle.scanning.proofs.scan_without.Goals as goal
use Rattle.scanning.proofs.scan_without.Goals.{Start}

held : (s : goal.Start) → let a = s.args in let p = a.p.now in let t = a.tables.now in Held p (at p.setter a.v) a.v t.levels t.others t.reads
held s = record {
  legal = s.requires.0;
  tabled = s.requires.1;
  small = s.requires.3;
  holds = s.requires.0.setter_holds s.args.v s.requires.2 s.requires.3;
}

pub stay_entry-requires : goal.stay_entry-requires
stay_entry-requires c = places _ c.requires.0 c.args.v c.requires.2

pub strengths-worked-requires : goal.strengths-worked-requires
strengths-worked-requires c = (rw (c.enter.ensures, c.stay_entry.ensures) (rest_acyclic (held (goal.at.strengths-worked-requires c).Start)), search rules)

pub returns : goal.returns
returns c =
    let h = held (goal.at.returns c).Start in
    record {
      scanned =
          scanned h _ _ (rw (c.enter.ensures, c.stay_entry.ensures) at c.strengths-worked.ensures.table_after) _ c.strengths-worked.ensures.value _
          c.find_blocked-blocked.ensures;
      tabled = rw (c.enter.ensures, c.stay_entry.ensures) (tabled_dropped h);
    }
