-- Document 02, No. 1, as C has its answers: a data segment's header, and the size of one of its blocks; and the numbers as C hands
-- them in.
use Rattle.std.specs.Prelude.{ℕ, Result, Option}
use Rattle.segment.specs.declared.Segment.{Segment}
use Rattle.refusal.specs.declared.Refusal.{Refusal}
use Rattle.segment.specs.declared.Head.{Head}
use Rattle.segment.specs.Reading.{segment_number, segment_values, size_number, size_found, size_value}
use Rattle.face.specs.Shapes.{part_shown}
use Rattle.face_segments.specs.declared.SegmentAnswer.{SegmentAnswer}
use Rattle.face_segments.specs.declared.SizeAnswer.{SizeAnswer}

unfoldable pub segment_answer : Result Segment Refusal → SegmentAnswer
segment_answer r =
    record {
      refusal = segment_number r;
      length = (segment_values r).length;
      start_offset = (segment_values r).head.start_offset;
      bytes_in_stream = (segment_values r).head.bytes_in_stream;
      bytes_in_vdl = (segment_values r).head.bytes_in_vdl;
      unit_shift = (segment_values r).head.shifts.unit;
      chunk_shift = (segment_values r).head.shifts.chunk;
      cluster_shift = (segment_values r).head.shifts.cluster;
      blocks = (segment_values r).blocks;
      larger = (segment_values r).larger;
      reserved = 0;
      sizes = part_shown (segment_values r).sizes;
    }

unfoldable pub size_answer : Result (Option ℕ) Refusal → SizeAnswer
size_answer r = record { refusal = size_number r; found = size_found r; size = size_value r }

-- the numbers that the writer takes, in the order of its arguments
abbrev pub head_from : ℕ → ℕ → ℕ → ℕ → ℕ → ℕ → Head
head_from start stream vdl unit chunk cluster =
    record {
      start_offset = start;
      bytes_in_stream = stream;
      bytes_in_vdl = vdl;
      shifts = record { unit = unit; chunk = chunk; cluster = cluster };
    }
