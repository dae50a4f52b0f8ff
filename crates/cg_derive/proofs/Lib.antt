mod Way
