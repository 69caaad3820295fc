-- THE CONTRACT of a step's code: what the rules' step does, written back. Document 01, "Trace and answer records".
use Rattle.std.specs.Prelude.{ℕ, ◌%◌, ◌≡◌, true, false, List, [], Option, Some, None, ◌++◌, length, take, drop}
use Rattle.rules.specs.declared.Packet.{Packet}
use Rattle.tables.specs.Lent.{Tables, tables}
use Rattle.both.specs.declared.Kept.{Kept}
use Rattle.both.specs.Replied.{Replied}
use Rattle.both.specs.View.{view, kept_of, written, sound_kept, kept_clock}
use Rattle.fields.specs.Formats.{over}
use Rattle.answers.specs.declared.Reply.{Reply}
use Rattle.answers.specs.declared.Reply.TheVariants.{Linked, Admitted, Closed, Offered, Noticed, Departed}
use Rattle.answers.specs.Answers.{answer_bytes}
use Rattle.steps.specs.declared.Lent.{Lent}
use Rattle.steps.specs.declared.Phase.{Phase}
use Rattle.steps.specs.declared.Cursor.{Cursor}
use Rattle.steps.specs.declared.Status.{Status}
use Rattle.steps.specs.declared.Status.TheVariants.{NotSound}
use Rattle.steps.specs.declared.Stepped.{Stepped}
use Rattle.steps.specs.Steps.{Point, point, Next}

-- the three tables that are lent
abbrev pub lent : Lent → Tables
lent t = tables t.members.now t.places.now t.notices.now

-- the same three slices are lent, each as long as it was: what is in them at the end is what their owner has then
abbrev pub SameSlices : Lent → Lent → Type 0
SameSlices t u =
    (t.members.ghost_name ≡ u.members.ghost_name)
    × (t.places.ghost_name ≡ u.places.ghost_name)
    × (t.notices.ghost_name ≡ u.notices.ghost_name)
    × (length t.members.now ≡ length u.members.now)
    × (length t.places.now ≡ length u.places.now)
    × (length t.notices.now ≡ length u.notices.now)

-- the point that a cursor and the three tables stand for, and the part of a point that no table holds
abbrev pub point_of : Cursor → Tables → Point
point_of c t = point c.at c.phase (view c.line t)

abbrev pub cursor_of : Point → Cursor
cursor_of p = record { at = p.at; phase = p.phase; line = kept_of p.line }

-- a function answered a and left the tables t and the room o', which was o before: what the step n does, written back, to the room from its k-th byte on
pub record Makes (n : Next) (a : Stepped) (t : Tables) (k : ℕ) (o o' : List ℕ) : Type 0 where
  pub answers : a ≡ record { cursor = cursor_of n.point; used = n.used; wrote = length n.bytes; status = n.status }
  pub tables : t ≡ written n.point.line
  pub room : o' ≡ take k o ++ over n.bytes (drop k o)

-- ON ANY LINE AND ANY TABLES: the step n where they are sound, else nothing, and nothing is changed
pub record MakesIfSound (n : Next) (c : Cursor) (before : Tables) (o : List ℕ) (a : Stepped) (after : Tables) (o' : List ℕ) : Type 0 where
  pub where_sound : sound_kept c.line before ≡ true → Makes n a after 0 o o'
  pub where_not : sound_kept c.line before ≡ false → (a ≡ record { cursor = c; used = 0; wrote = 0; status = NotSound }) × (after ≡ before) × (o' ≡ o)

-- ---- what the functions inside a step say of themselves

abbrev pub cursor_at : ℕ → Phase → Kept → Cursor
cursor_at at p h = record { at = at; phase = p; line = h }

-- nothing is done, and the status says why
abbrev pub nothing_done : Cursor → Status → Stepped
nothing_done c k = record { cursor = c; used = 0; wrote = 0; status = k }

-- the answer record of a reply to a link, an admission, a close, an offer, a notice; a number of one byte by its low byte
abbrev pub link_answer : Replied → Reply
link_answer r = Linked (r.verdict % 256)

abbrev pub admission_answer : Replied → Reply
admission_answer r = Admitted (r.verdict % 256) (r.number % 256) (r.short.level % 256) r.short.units

abbrev pub close_answer : Replied → Reply
close_answer r = Closed (r.verdict % 256)

abbrev pub offer_answer : Replied → Reply
offer_answer r = Offered (r.verdict % 256) r.number

abbrev pub notice_answer : Replied → Reply
notice_answer r = Noticed (r.verdict % 256) r.number

-- the departure that an answer tells, as it is written; its finish is the clock then
abbrev pub departure_log : Option Packet → ℕ → List ℕ
departure_log None finish = []
departure_log (Some p) finish = answer_bytes (Departed p.connection p.tag p.arrival p.eligibility finish)

abbrev pub told_log : Replied → List ℕ
told_log r = departure_log r.departed (kept_clock r.kept)
